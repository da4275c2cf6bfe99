mod GivenOptions
mod ReadWords
mod Shapes
