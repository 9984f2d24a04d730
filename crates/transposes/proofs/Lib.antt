-- Mirrors: a matrix turned place by place.
pub mod Mirrors
