pub mod SegmentsLemmas
mod TallyLemmas
mod CopiesLemmas
pub mod Lists
pub mod PackingLemmas
mod Pieces
mod Queues
pub mod SlicesLemmas
pub mod LentLemmas
pub mod Results
pub mod ReadingLemmas
mod WriteLemmas
