mod Basics
mod Closings
mod Comments
mod Cursor
mod Cuts
mod Doubling
mod KindTable
mod Lexemes
mod Lexing
mod Numbers
mod PieceLists
mod QuoteAtoms
mod Quotes
mod ReservedWords
mod Sequences
mod Shorter
mod TokenLists
mod Transfer
mod Values
mod Words
pub mod Complete
pub mod CompleteForms
pub mod Parses
pub mod Sound
pub mod SoundForms
