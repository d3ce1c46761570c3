pub mod OtherOffsets
pub mod LineMasks
