pub mod Cells
pub mod Count
pub mod Name
pub mod NameFields
pub mod UserLines
pub mod UserNames
