pub mod Children
pub mod Grammar
pub mod Lengths
pub mod Reading
pub mod Spelling
pub mod SumMessage
pub mod Wire
