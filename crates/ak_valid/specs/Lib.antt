pub mod Faults
pub mod FirstFault
pub mod Firsts
pub mod Kinds
pub mod Numbered
pub mod Refusals
pub mod Uses
pub mod Valid
