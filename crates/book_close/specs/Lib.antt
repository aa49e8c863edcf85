-- Books closed up, as loops do it.
pub mod Slides
