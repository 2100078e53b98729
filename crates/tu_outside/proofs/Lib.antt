-- of this crate alone
mod CellLemmas
mod ReadLemmas
mod ToldLemmas
