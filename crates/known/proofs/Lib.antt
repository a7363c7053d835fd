pub mod ByRow
