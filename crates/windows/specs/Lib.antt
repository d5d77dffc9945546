-- How a window is carried; what is told of it is defined in `boxes`.
pub mod Code
