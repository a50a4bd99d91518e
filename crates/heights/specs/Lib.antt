pub mod GoodSettings
pub mod Heights
pub mod GoodHeight
pub mod LineUnder
