pub mod Greatest
pub mod Rounded
pub mod Extended
pub mod InOrder
pub mod Laid
pub mod Unlaid
