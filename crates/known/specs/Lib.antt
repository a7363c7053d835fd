pub mod Acquainted
