pub mod TwoDigits
