-- Counting what is left to do:
--     Weights         what is left, weighed
--     Conservation    a move takes the weight of its event off what is left
--     CountLaws       so steps, vertices, edge rows and jobs are counted
--     Unanswered      a job that is not answered yet is held by a vertex
pub mod Weights
pub mod Conservation
pub mod CountLaws
pub mod Unanswered
