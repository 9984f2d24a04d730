-- Apart: a number tells one answer.
pub mod Apart
