-- Laws of what the senders share. Assumes nothing.
pub mod Buffer
