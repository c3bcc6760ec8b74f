-- What the proofs share. Laws of the definitions:
--     ShortPaths    a shortest path has fewer edges than there are vertices
--     HopLaws       paths of a given number of edges: the tests that decide them, and chains
--     ChainLaws     the chain that is written: the shortest, of these the first, and the only one
--     ShowingLaws   what the call comes to: a refusal that is due, or a chain in a list that has room
-- The theorems:
--     Theorems      of the chain, of the call, and of refusal 35
--     Examples      the calls of specs/Examples.antt, evaluated
-- What the proofs of the code use besides:
--     NearestLaws   the pass that finds for each vertex the lowest vertex one edge nearer
--     WalkLaws      the walk over these, as it is written
--     Measures      what the search has measured is what the definitions ask for
--     ReturnLaws    the call's outcome, return by return
pub mod ShortPaths
pub mod HopLaws
pub mod ChainLaws
pub mod ShowingLaws
pub mod Theorems
pub mod Examples
pub mod NearestLaws
pub mod WalkLaws
pub mod Measures
pub mod ReturnLaws
