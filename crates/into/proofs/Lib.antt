-- Engines: the slow engine and the kernels agree. Judged: a call that was judged, and what is then known.
pub mod Engines
pub mod Judged
