pub mod Marks
pub mod Origins
pub mod Children
