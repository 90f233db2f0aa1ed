mod Grown
mod Guided
