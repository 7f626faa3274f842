-- What the private functions say of their steps.
pub mod ReadItems
