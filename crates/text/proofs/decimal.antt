pub mod DecimalText
