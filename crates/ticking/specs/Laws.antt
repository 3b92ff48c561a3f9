-- That most ticks may be made in a form of their own.
pub mod Within
