pub mod Decimal
pub mod Alignment
