-- The ghost machine, and what holds of every state that it reaches:
--     Ghost           states, in which each vertex has its code, and moves
--     Invariant       the invariant in five parts: shape, ranks, roads, codes, open futures
--     GhostLaws       laws of the parts that states and moves are made of
--     RoadLaws        more of them: what is seen of a control, and edges with one more, handed on or dropped
--     ShapeStep       what a move must show for the shape to be kept
--     ShapeActs       the moves that make no vertex show it
--     ShapeMakes      and so do those that make one
--     ShapeKept       every move keeps the shape
--     SettledLaws     settled edges as the moves change them
--     SplitLaws       what a split does
--     Ways            ways by settled edges: from each vertex with an item to its scope
--     RoadsSplit      a split keeps the roads
--     RoadsKept       every move keeps the roads
--     RanksKept       every move leaves edges leading from lower ranks to higher ones
--     CodedKept       every move leaves each vertex with code of the program
--     OpenedKept      every move leaves at each vertex the futures that are open at its place
--     ScopesAsleep    the scope of a vertex that has an item is new or released
--     Acyclic         ranks rise along edges, so no path closes
--     Ended           a vertex that is over has no edge out
--     Unsplit         an item that is not split has vertices to make
--     Progress        some vertex can move on as long as one is not over
--     Beginning       the state after loading, told by cases
--     BeginningShape  it has the shape
--     BeginningRoads  it has ranks, roads and codes
--     InvariantKept   all of this, and the order of jobs, holds after loading and is kept by every move
pub mod Ghost
pub mod Invariant
pub mod GhostLaws
pub mod RoadLaws
pub mod ShapeStep
pub mod ShapeActs
pub mod ShapeMakes
pub mod ShapeKept
pub mod SettledLaws
pub mod SplitLaws
pub mod Ways
pub mod RoadsSplit
pub mod RoadsKept
pub mod RanksKept
pub mod CodedKept
pub mod OpenedKept
pub mod ScopesAsleep
pub mod Acyclic
pub mod Ended
pub mod Unsplit
pub mod Progress
pub mod Beginning
pub mod BeginningShape
pub mod BeginningRoads
pub mod InvariantKept
