-- Lemmas about what the library's methods give.
mod Parts
