pub mod FieldsBack
pub mod Fronts
pub mod NodesBack
pub mod RowBack
