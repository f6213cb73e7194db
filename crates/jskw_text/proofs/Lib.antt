pub mod Alike
mod Contents
pub mod Digits
pub mod Escapes
pub mod Exact
pub mod FewDigits
mod Lanes
mod Lexemes
mod ShortNumbers
mod Spans
pub mod Members
pub mod Numbers
mod Passing
pub mod Places
pub mod Reading
pub mod Utf8
pub mod Pruned
