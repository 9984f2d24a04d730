-- Rows: a row of the product.
mod Rows
