pub mod Codes
pub mod FieldCodes
pub mod Flags
pub mod Structs
