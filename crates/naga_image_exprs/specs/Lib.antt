-- To read first:
-- Samples.IsImageSampleRule, image_sample_rule, sample_checks: the rule of a sample of an image
-- Loads.image_load_rule: the rule of a load of a texel
-- Queries.image_query_rule: the rule of a query of an image
-- Resources.resource_type: the type of the image or sampler that an operand stands for
pub mod Coordinates
pub mod Loads
pub mod Queries
pub mod Resources
pub mod Samples
pub mod steps
