pub mod RowBits
pub mod PersonFlags
