-- The theory of the reader:
--     ReadLaws      what is read from bytes, in general
--     NumberLaws    reading a number is exact, with any room
--     Soundness     what is read stands in the bytes, and fits
--     ReaderLaws    the body reader and the item reader unrolled
--     StackLaws     the body reader without recursion, by the items that are open around a body
--     Completeness  every tree within the limits in which every force has its future is read back from its bytes
--     ReadingLaws   reading a whole program, by what its main body comes to
--     StopLaws      where reading stops, and why
--     RefusalLaws   from why reading stops to what the refusals say
-- The theory of places:
--     LocatedLaws   code laid out in a program, and what starts at a place of it
--     OpenLaws      each force in a program's code has the body of the future that it names
--     StartLaws     where code starts in a program's bytes
-- What the proofs of functions cite, one law for each path through the code and for each turn of a loop:
--     CodeLaws, NumberLoop, ProgressLaws, BodyLoop, ItemPaths   the number reader, the body reader and the item reader
--     WholeLaws     reading a whole program
--     NumberEnds    where a number ends, and which bytes stand inside one
--     SkipLaws      the search for a body's end
--     ItemLaws      what the item reader of a step tells at its place, and the reader that it hands back
--     CheckLaws     whether a whole program is read, told in one pass
--     PlaceLaws     what starts and what stands at a place of a whole program
--     MarkLaws      marks for the places of a whole program
--     EndLaws       where the body ends, from each place of a whole program on
--     EndedLaws     what stands at a place of it, told by ends
-- The theorems:
--     Exactness     the reader accepts the encodings of the trees within all limits, each as its own tree, and nothing else
--     Refusals      what each refusal says of the bytes
--     Formulas      what a program needs, by its counts
pub mod ReadLaws
pub mod NumberLaws
pub mod Soundness
pub mod ReaderLaws
pub mod StackLaws
pub mod Completeness
pub mod ReadingLaws
pub mod StopLaws
pub mod RefusalLaws
pub mod LocatedLaws
pub mod OpenLaws
pub mod StartLaws
pub mod CodeLaws
pub mod NumberLoop
pub mod ProgressLaws
pub mod BodyLoop
pub mod ItemPaths
pub mod WholeLaws
pub mod NumberEnds
pub mod SkipLaws
pub mod ItemLaws
pub mod CheckLaws
pub mod PlaceLaws
pub mod MarkLaws
pub mod EndLaws
pub mod EndedLaws
pub mod Exactness
pub mod Refusals
pub mod Formulas
