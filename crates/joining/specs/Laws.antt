-- The laws of the join's definitions, a file for each, in the order of the definitions.
pub mod Rule
pub mod Join
