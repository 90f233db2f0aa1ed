pub mod SlotNumbers
pub mod WorkedTheories
