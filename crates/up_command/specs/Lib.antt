pub mod Words
pub mod Users
pub mod Printed
pub mod Statuses
