pub mod Numbers
pub mod Fronts
pub mod Forms
pub mod FieldForms
pub mod Digits
pub mod Repeated
pub mod Parts
pub mod FieldParts
pub mod Lists
pub mod Tables
pub mod Messages
pub mod Sizes
mod Examples
