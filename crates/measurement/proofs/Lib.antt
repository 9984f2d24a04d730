-- Measured: a measurement after its judge.
mod Measured
