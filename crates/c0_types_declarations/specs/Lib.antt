pub mod DeclarationViews
