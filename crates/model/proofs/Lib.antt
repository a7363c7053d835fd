-- answers, numbers, bits
pub mod Answering
pub mod Bits
pub mod Sets
pub mod Counting
pub mod Places
-- the rules as functions that compute
pub mod Computing
pub mod Deciding
pub mod Walking
pub mod Degrees
pub mod Judging
pub mod Paging
pub mod Suggesting
pub mod Questioning
-- schemes and networks
pub mod Cliques
pub mod Decoding
pub mod Overlong
pub mod Held
pub mod ByteChanged
pub mod Symmetry
pub mod Groups
pub mod KeepsFit
-- the log, the standard scheme, the examples
pub mod Logging
pub mod Texts
pub mod StandardRead
pub mod Longest
pub mod Meaning
pub mod SessionRead
pub mod Exemplified
-- the claims
pub mod Once
pub mod Leaving
pub mod Replayed
pub mod Unseen
pub mod Tracing
pub mod Playing
pub mod Happening
-- what the claims speak of
pub mod Similarity
pub mod HiddenRecipe
pub mod SessionTexts
-- consent on record
pub mod Consenting
pub mod Consented
