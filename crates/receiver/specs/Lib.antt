-- What the receiver's calls answer where the state is words.
pub mod Words
