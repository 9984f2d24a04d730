-- Judged: a gate that has a rule, judged.
pub mod Judged
