-- What the writer's code answers and leaves, in words and bytes.
pub mod Writer
