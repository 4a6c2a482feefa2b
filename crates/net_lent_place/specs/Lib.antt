pub mod LentPlace
