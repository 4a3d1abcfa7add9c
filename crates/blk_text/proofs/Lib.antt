pub mod BytesNamed
pub mod CodeThere
pub mod GraphCode
pub mod KeptU2
