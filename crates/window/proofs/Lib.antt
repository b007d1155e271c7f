pub mod Slides
