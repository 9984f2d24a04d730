-- Shifts: the code's `1 << n`. Judged: a call after its judge. Seats: what holds of a call that was let pass.
pub mod Shifts
pub mod Judged
pub mod Seats
