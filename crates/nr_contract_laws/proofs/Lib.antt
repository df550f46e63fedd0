-- Lemmas behind the laws.
mod Verdict
mod Decoding
mod Ending
mod Books
mod Turning
mod Given
mod Along
mod Answering
mod Calls
