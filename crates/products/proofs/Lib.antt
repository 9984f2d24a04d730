-- Products: a call, refused or taken.
mod Products
