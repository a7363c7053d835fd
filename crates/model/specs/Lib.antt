-- The definitions of docs/reference.md, in its order as far as each rests on those above it.

-- answers, tests, bytes
pub mod Answers
pub mod Decides
pub mod Bytes
-- "Policies", which a scheme holds
pub mod Graph
pub mod Policies
-- "Scheme", and the scheme check
pub mod Scheme
pub mod SchemeBytes
-- "Finding", and "Network", which gives what finding reads
pub mod Finding
pub mod Network
-- "Suggestions"
pub mod Page
pub mod Suggestions
-- "The calls"
pub mod Requests
pub mod Calls
pub mod Questions
pub mod Log
pub mod Text
-- "The plain machine"
pub mod Machine
pub mod History
pub mod TwoLists
pub mod Traces
pub mod Claims
-- "The standard scheme", "The session"
pub mod Standard
pub mod Session
pub mod Meaning
pub mod SessionText
-- worked examples
pub mod Examples
pub mod HiddenRecipe
-- "Consent on record"
pub mod Consent
