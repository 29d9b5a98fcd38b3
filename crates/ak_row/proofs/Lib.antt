pub mod Fitting
pub mod Numbers
pub mod Parts
pub mod ReadBack
pub mod Written
