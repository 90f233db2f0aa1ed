pub mod Versions
pub mod Items
pub mod Readings
pub mod Printed
pub mod Behind
