-- Rows: a row times a state.
mod Rows
