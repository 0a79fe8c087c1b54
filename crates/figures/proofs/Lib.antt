pub mod KnownFigures
pub mod Answering
