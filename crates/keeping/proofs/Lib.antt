-- Laws: the session that is in the words after a delivery.
pub mod Laws
