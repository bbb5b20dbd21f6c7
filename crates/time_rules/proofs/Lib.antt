pub mod Days
pub mod Next
