pub mod SameSchema
